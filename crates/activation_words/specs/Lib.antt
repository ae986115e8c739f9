pub mod Told
pub mod Calls
pub mod CycleCalls
pub mod Members
pub mod working
