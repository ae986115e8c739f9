pub mod Links
pub mod Negotiation
pub mod LinkOutcome
pub mod Unlinking
pub mod working
