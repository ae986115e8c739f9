-- Lemmas on activations: phases, the count of dependencies left, and each step of a node's cycle.
pub mod LeftLemmas
pub mod PhaseLemmas
pub mod ProgressLemmas
pub mod FollowerLemmas
pub mod WorkStepsLemmas
pub mod ClaimLemmas
pub mod ResetLemmas
pub mod CycleLemmas
pub mod RowLemmas
pub mod UntoldLemmas
