-- What the checkers of plans and histories go by. Source: this project's own.
pub mod FormChecks
pub mod FreshChecks
pub mod Ordered
