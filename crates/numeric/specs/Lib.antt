-- The definitions that the contracts of `numeric` and of the crates above it cite, in reading order: choices and folds; f64 arithmetic;
-- phase, sine, several sines, root; between f32 and f64, and the bit patterns by which the code does it; rounding to whole numbers, counts; bounds,
-- intervals, limits.
pub mod Fold
pub mod F64
pub mod Phase
pub mod Sine
pub mod Sines
pub mod Root
pub mod Convert
pub mod Patterns
pub mod Rounding
pub mod Counts
pub mod Bounds
pub mod Interval
pub mod Limits
