-- The definitions that the contracts of `resampling` cite: the filter's design and its sums, a flow of samples, the resampler, lists of its calls;
-- `..Rep`: how the code holds them.
pub mod Design
pub mod Filter
pub mod FilterRep
pub mod Flow
pub mod FlowRep
pub mod Resample
pub mod Rates
pub mod ResampleRep
pub mod Finite
pub mod Numbers
