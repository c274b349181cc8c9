-- Laws that more than one proof cites.
pub mod StateCalls
pub mod SenderCalls
