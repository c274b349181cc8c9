-- Laws that the proofs of the functions, and other crates, cite.
pub mod Moves
pub mod Taking
pub mod Resampled
pub mod Receiving
pub mod QueueLaws
pub mod RxLaws
pub mod RxCalls
pub mod ErrorLaws
pub mod SymbolLaws
