-- Laws, and what the proofs of the functions cite.
pub mod HappeningLaws
mod Counting
