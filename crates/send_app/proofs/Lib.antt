-- Laws that the proofs of the functions cite.
mod Asking
pub mod AskingTable
pub mod BytesLaws
pub mod NearestLaws
pub mod CallLaws
pub mod HeaderLaws
