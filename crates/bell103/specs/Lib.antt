-- The definitions that the contracts of `bell103` cite.
pub mod Roles
pub mod Durations
