pub mod Draws
pub mod SoakChains
pub mod SoakLine
pub mod SoakPorts
pub mod SoakScript
pub mod SoakText
pub mod working
