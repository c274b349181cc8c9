-- The definitions that the contracts of `store` cite: a settings line; the store that lines are read from and written to; `StoreRep`: how the
-- code holds what it reads; `Claims`: what is claimed of all buffers and lines.
pub mod Line
pub mod Store
pub mod StoreRep
pub mod Claims
