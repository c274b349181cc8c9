-- What the program makes of all of its input.
pub mod Input
