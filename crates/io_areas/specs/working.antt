-- How a turn on a pool goes on, and how samples are unpacked. Source: this project's own.
pub mod OutputSteps
pub mod Unpacking
