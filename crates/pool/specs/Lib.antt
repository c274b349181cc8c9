-- The definitions that the contracts of `pool` cite.
pub mod Fields
pub mod Lines
