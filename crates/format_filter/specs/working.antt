-- How intersections are made: picks, progressions, rows of fields, and what was read of properties.
-- Source: this project's own; spa/pod/filter.h.
pub mod Making
pub mod Merging
pub mod Picking
pub mod Progression
pub mod PropReading
