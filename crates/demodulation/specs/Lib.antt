-- The definitions that the contracts of `demodulation` cite: carrier.rs, the correlator, the timing, and one sample through all of them;
-- and what a board's symbols are, over a list of samples (Pace, Symbols).
pub mod Carrier
pub mod Selftest
pub mod Correlation
pub mod Summing
pub mod Waves
pub mod Timing
pub mod Pace
pub mod Demod
pub mod Symbols
pub mod DemodRep
pub mod Listening
pub mod Goertzel
