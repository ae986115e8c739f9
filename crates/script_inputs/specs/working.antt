-- What the making of inputs goes by. Source: this project's own.
pub mod Turns
pub mod SoundInputs
