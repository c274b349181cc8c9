-- The definitions that the contracts of `modulation` cite: waiting bits, tones, a pass, the sender; `..Rep`: how the code holds them.
pub mod Bits
pub mod Requests
pub mod Tone
pub mod Modulator
pub mod ModulatorRep
pub mod Tx
pub mod Fed
pub mod TxRep
pub mod Queueing
pub mod Table
pub mod TableTx
pub mod Keying
pub mod TableTxRep
pub mod Nco
pub mod Numbers
