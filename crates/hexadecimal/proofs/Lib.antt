-- Laws that the proofs of the functions, and other crates, cite.
pub mod HexLaws
pub mod ByPlace
pub mod FirstWrong
