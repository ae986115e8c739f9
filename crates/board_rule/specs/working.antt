-- What seats and steps of a board work with: rows of its shape, its slots, and what is kept to step
-- by. Source: this project's own.
pub mod Dealing
pub mod DriverProgress
pub mod Plays
pub mod Progress
pub mod NodeIndexes
pub mod Rows
pub mod Shares
pub mod Slots
