-- The definitions that the contracts of `console` cite: the words of a command, text judged line by line, and numbers one a line.
pub mod Words
pub mod Text
pub mod Numbers
