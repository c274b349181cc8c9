-- The plain board's laws, the third term and the starred examples; then what the proofs of the functions cite.
pub mod PlainLaws
pub mod ReceiverLaws
pub mod SymbolLaws
pub mod Third
pub mod Starred
pub mod HostedLaws
pub mod BoardRepLaws
pub mod Writing
pub mod Running
pub mod Listening
