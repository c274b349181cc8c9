-- The definitions that the contracts of `listen_app` cite.
pub mod Words
pub mod BlockReader
pub mod BlockReaderRep
pub mod Host
pub mod HostRep
pub mod Listener
pub mod Session
