pub mod Points
pub mod Gains
pub mod ControlFaults
pub mod Automation
