-- Activations: what the rule reads of phases, the row of a node, and the steps that lower, trigger,
-- claim and finish nodes. Source: PipeWire's documentation, "Graph Scheduling"; spa/graph/graph.h.
pub mod Left
pub mod Phases
pub mod NodeRow
pub mod ActivationReadings
pub mod ActivationRule
pub mod SeatNodes
pub mod Taken
pub mod TellingSteps
pub mod WorkSteps
