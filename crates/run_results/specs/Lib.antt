pub mod Places
pub mod StatusLine
pub mod StatusNumbers
pub mod Statuses
