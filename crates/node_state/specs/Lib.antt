pub mod Slices
pub mod States
pub mod Streams
pub mod StandsFor
pub mod StateReadings
pub mod working
