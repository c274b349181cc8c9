-- The definitions that the contracts of `framing` cite, and what framing and deframing are to each other.
pub mod Frame
pub mod Framing
