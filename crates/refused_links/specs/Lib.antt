pub mod Sides
pub mod Refused
pub mod Words
pub mod working
