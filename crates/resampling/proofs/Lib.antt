-- Laws that the proofs of the functions, and other crates, cite.
pub mod Ring
pub mod FilterLaws
pub mod Running
pub mod Rising
pub mod Answers
pub mod FlowLaws
pub mod ResampleLaws
pub mod Place
pub mod NumberLaws
pub mod Settled
pub mod Flowing
pub mod Starving
pub mod Sizes
pub mod FiniteLaws
