-- What is proved of the definitions.
pub mod RoleLaws
pub mod DurationLaws
pub mod Summing
