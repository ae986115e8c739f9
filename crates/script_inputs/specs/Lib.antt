pub mod Inputs
pub mod ScriptInputs
pub mod working
