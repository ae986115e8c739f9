pub mod Causes
pub mod Finding
pub mod FirstIllegal
pub mod Reasons
pub mod working
