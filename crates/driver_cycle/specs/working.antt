-- When the driver's thread rests. Source: this project's own.
pub mod Resting
