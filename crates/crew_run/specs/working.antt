-- What a run begins with, within the crate. Source: this project's own.
pub mod Tasks
