-- What the proofs of the functions cite; and that whole recordings are read as they were written.
pub mod SampleLaws
pub mod Places
pub mod Recorded
