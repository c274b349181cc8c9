-- Laws that other crates cite: of floats, their bounds, intervals and sizes, of samples, of counts, of sines, of lists, tests and loops; and values worked out.
pub mod Whole
pub mod BoundLaws
pub mod Signed
pub mod IntervalLaws
pub mod SizeLaws
pub mod RangeLaws
pub mod RoundingLaws
pub mod CountLaws
pub mod SinesLaws
pub mod Loops
pub mod Parts
pub mod Tested
pub mod Examples
-- What the proofs of this crate alone cite.
mod Bits
mod Narrow
mod RootLaws
mod SineLaws
mod Taps
