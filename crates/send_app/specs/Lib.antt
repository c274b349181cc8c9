-- The definitions that the contracts of `send_app` cite.
pub mod Words
pub mod Header
pub mod Bytes
pub mod Call
pub mod Gauge
