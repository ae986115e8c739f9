-- What a run begins with and goes through. Source: this project's own.
pub mod Crew
pub mod Prepared
pub mod Drafts
