-- The definitions that the contracts of `tide` cite: a frame, a line judged, the decoder, the lines of what is heard; `..Rep`: how the code holds them.
pub mod Frame
pub mod Judge
pub mod JudgeRep
pub mod Decoder
pub mod Held
pub mod DecoderRep
pub mod Lines
