-- Laws that the proofs of the functions, and other crates, cite.
pub mod SummingLaws
pub mod SummingSteps
pub mod CarrierLaws
pub mod TimingLaws
pub mod DemodLaws
pub mod FreshLaws
pub mod PaceLaws
pub mod SymbolLaws
pub mod KindLaws
mod Turns
