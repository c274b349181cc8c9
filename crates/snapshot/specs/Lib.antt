-- What is shown of a state.
pub mod ReceiverState
pub mod StateSteps
pub mod ResamplerState
pub mod SenderState
