-- The turn of a node on all its links and pools, as views have it. Source: this project's own.
pub mod Ends
pub mod Turning
