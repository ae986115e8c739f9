pub mod Disks
pub mod KnownFiles
pub mod Reasons
pub mod Unread
pub mod working
