pub mod ListLemmas
pub mod EndsLemmas
pub mod ReadingInputsLemmas
pub mod WritingLemmas
pub mod TurningLemmas
