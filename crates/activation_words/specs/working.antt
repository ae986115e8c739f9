-- How a late check goes on. Source: this project's own.
pub mod Checks
