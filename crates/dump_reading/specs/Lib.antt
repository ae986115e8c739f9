pub mod Values
pub mod WellFormed
pub mod Answers
pub mod working
