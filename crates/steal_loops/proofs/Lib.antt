pub mod ClaimantLemmas
pub mod DoneLemmas
pub mod NodeSetsLemmas
pub mod OneNodeLemmas
pub mod PrepareLemmas
pub mod SendLemmas
pub mod StepLemmas
