-- The definitions that the contracts of `wav` cite, from samples and words to the reader; and what a recording is.
pub mod Sample
pub mod Words
pub mod Wav
pub mod Recording
