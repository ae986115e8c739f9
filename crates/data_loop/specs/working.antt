-- How a turn on links and on pools goes on, and what a loop passes on. Source: this project's own.
pub mod Inputs
pub mod Places
pub mod Giving
pub mod ReadingInputs
pub mod Standings
pub mod Writing
