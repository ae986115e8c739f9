-- What is found of a line once it is done. Source: this project's own.
pub mod Finding
