pub mod AllowedLemmas
pub mod LoadLemmas
pub mod CountLemmas
pub mod KeepingLemmas
pub mod ReadLemmas
pub mod HeadlineLemmas
pub mod FinishLemmas
