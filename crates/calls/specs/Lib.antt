-- Lists of calls. Assumes nothing.
pub mod Answers
pub mod Roles
pub mod Resample
pub mod Steps
pub mod Receive
pub mod ReceiveSteps
pub mod Script
pub mod ScriptSteps
pub mod Send
pub mod Table
pub mod Shown
pub mod Frames
