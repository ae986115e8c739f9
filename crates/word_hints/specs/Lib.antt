pub mod Nearness
pub mod Guesses
pub mod ShellSigns
