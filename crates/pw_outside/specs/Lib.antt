pub mod Causes
pub mod Every
pub mod FailingCalls
pub mod Files
pub mod InMemory
pub mod Output
