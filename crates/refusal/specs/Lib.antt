-- The definitions that the contracts of `refusal` and of the crates above it cite.
pub mod Refusals
