pub mod Dealt
pub mod Places
pub mod Starting
pub mod working
