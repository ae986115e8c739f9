-- Lemmas on parts: the partition, the lines of a part, all parts line by line, what is between and outside.
pub mod RehearsalLemmas
pub mod WalkLemmas
pub mod PartitionLemmas
pub mod PartLinesLemmas
pub mod MovingLemmas
pub mod AheadLemmas
pub mod MovingTogetherLemmas
pub mod TogetherLemmas
pub mod PartedLemmas
pub mod BetweenLemmas
pub mod SaidLastLemmas
pub mod JoiningLemmas
pub mod OutsideLemmas
pub mod ApartLemmas
