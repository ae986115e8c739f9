pub mod Chain
pub mod Following
