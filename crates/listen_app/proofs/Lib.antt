-- Laws that the proofs of the functions cite.
pub mod HostLaws
pub mod Hosting
pub mod Hearing
