-- The definitions that the contracts of `board` cite: the plain board, the third term, and how the code holds, runs and answers them.
pub mod Plain
pub mod Symbols
pub mod Term
pub mod Station
pub mod BoardRep
pub mod Runs
pub mod Hosted
