-- The definitions that the contracts of `modem` cite: the checks of a write, what hears, queues, the receiver; `..Rep`: how the code holds it.
pub mod Samples
pub mod Hear
pub mod Listener
pub mod ListenerRep
pub mod Symbols
pub mod Places
pub mod Queue
pub mod Write
pub mod Rx
pub mod RxRep
