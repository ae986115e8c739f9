-- Lemmas on what there is only one of: an epoch, a line, a plan, a rehearsal, a partition, the
-- parts.
pub mod OneEpochLemmas
pub mod OneStepLemmas
pub mod OnePlanLemmas
pub mod OneRehearsalLemmas
pub mod OnePartitionLemmas
pub mod OnePartsLemmas
