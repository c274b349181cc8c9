-- Laws that more than one proof of `ffi` cites.
pub mod Showing
pub mod Laying
pub mod Telling
pub mod Charging
pub mod GaugeLaws
