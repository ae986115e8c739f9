-- Buffers: areas, blocks and readers words, what seats know of them, and the steps on them. Source:
-- PipeWire's documentation, "SPA Buffers"; spa/node/io.h.
pub mod SampleWords
pub mod Areas
pub mod BlockReadings
pub mod NamedBlocks
pub mod BufferRule
pub mod Spans
pub mod KnownEnds
pub mod ByNumber
pub mod EndViews
pub mod BlockSteps
pub mod ReclaimSteps
pub mod WriterSteps
pub mod ReaderLoads
pub mod ReaderSteps
pub mod BufferReads
pub mod BufferSafety
