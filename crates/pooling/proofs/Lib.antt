-- Laws of the definitions, and what the proofs of the functions cite (Codes).
pub mod LevelLaws
pub mod PoolLaws
pub mod Codes
