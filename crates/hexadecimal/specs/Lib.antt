-- The definitions that the contracts of `hexadecimal` cite.
pub mod Hex
