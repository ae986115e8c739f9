pub mod Chunks
pub mod FormatChunk
pub mod WavFaults
pub mod WavReading
pub mod WavSamples
pub mod WavWriting
