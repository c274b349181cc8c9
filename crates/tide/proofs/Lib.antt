-- Laws of the definitions, in their order, and what the proofs of the functions cite (Checks, Stores, Moves).
pub mod FrameLaws
pub mod LineExamples
pub mod JudgeLaws
pub mod Checks
pub mod DecoderLaws
pub mod LinesLaws
pub mod LossExamples
pub mod DecoderRepLaws
pub mod Stores
pub mod Moves
