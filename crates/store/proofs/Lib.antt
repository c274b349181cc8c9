-- Laws that the proofs of the functions cite, and what is proved of the definitions.
pub mod Lines
pub mod Judging
pub mod Passing
pub mod Placing
pub mod StoreLaws
