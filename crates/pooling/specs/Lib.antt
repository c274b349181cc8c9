-- The definitions that the contracts of `pooling` cite, and what is claimed of them.
pub mod Pool
pub mod PoolRep
pub mod Claims
