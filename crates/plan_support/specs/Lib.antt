pub mod Work
pub mod working
