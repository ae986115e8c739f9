-- What the checker of traces works with: node sets, the rule for the next event, and prefixes.
-- Source: this project's own.
pub mod Admitting
pub mod NextEvent
pub mod NodeSets
pub mod Progress
