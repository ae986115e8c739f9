-- What stealing loops work with: cells, visits, who took what, and a run's crew.
-- Source: this project's own.
pub mod Cells
pub mod Claimants
pub mod CrewRun
pub mod Crews
pub mod NodeSets
pub mod Steps
pub mod Visits
