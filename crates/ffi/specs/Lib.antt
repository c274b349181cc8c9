-- What the functions exported to C give, beside what `calls` and `snapshot` say.
pub mod Charge
pub mod Digits
pub mod Durations
pub mod Gauges
pub mod Listen
pub mod Settings
