-- Laws that the proofs of the functions, and other crates, cite.
pub mod FrameLaws
pub mod FramingLaws
