-- Lists of calls. Assumes nothing.
pub mod Parts
pub mod Calls
pub mod ReceiverCalls
pub mod ByKind
pub mod Steps
pub mod TableKind
pub mod Showing
pub mod Made
pub mod ReceiveLaws
pub mod FrameCalls
