pub mod RowLemmas
pub mod SquareLemmas
pub mod PaddedLemmas
pub mod SliceLemmas
pub mod GivenLemmas
pub mod KeptLemmas
