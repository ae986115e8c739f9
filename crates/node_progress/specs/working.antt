-- A state before the run. Source: this project's own.
pub mod Preparing
