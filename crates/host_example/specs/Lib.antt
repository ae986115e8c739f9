pub mod Voices
pub mod SinkLine
