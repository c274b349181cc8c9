-- Laws that the proofs of the functions cite: numbers of words, blocks of text, numbers one a line.
pub mod Digits
pub mod Blocks
pub mod Lines
