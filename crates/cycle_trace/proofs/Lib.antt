pub mod ReadingLemmas
pub mod SpacedLemmas
pub mod TextLemmas
pub mod TraceReadingLemmas
