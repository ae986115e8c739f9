-- The event that the words of a line name. Source: this project's own.
pub mod EventWords
