-- What makes plans right: what a graph remembers and meets from line to line, in the whole and in
-- parts. Source: this project's own.
pub mod Ahead
pub mod Members
pub mod MovingTogether
pub mod NextEpoch
pub mod Reaching
pub mod ReadOff
pub mod Remembering
pub mod SoundGraph
pub mod SoundWires
pub mod Summing
