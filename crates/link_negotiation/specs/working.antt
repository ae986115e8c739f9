-- The search for a walk. Source: this project's own.
pub mod Searching
