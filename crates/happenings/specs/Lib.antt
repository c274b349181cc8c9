-- The definitions that the contracts of `happenings` cite.
pub mod Happening
pub mod Codes
