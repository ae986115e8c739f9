-- Runs of parts by threads of their own. Source: this project's own.
pub mod Crew
pub mod Groups
