-- What the commands are written with: how a part of one ends.
-- Source: this project's own.
pub mod Ending
pub mod Filtering
pub mod Playable
pub mod Seen
