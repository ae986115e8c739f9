-- Events: their tickets, their log, the late sets of checks, and the end of a board. Source: this
-- project's own; near to a profiler's records.
pub mod Drawn
pub mod Bits
pub mod Marks
pub mod Records
pub mod Logged
pub mod EventRule
pub mod TicketSteps
pub mod CheckSteps
pub mod EventSteps
pub mod Closing
pub mod TicketOrder
pub mod LateSets
