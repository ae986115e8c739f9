pub mod WalkLemmas
pub mod ReachedLemmas
pub mod SearchingLemmas
pub mod OutgoingLemmas
pub mod MayBeGivenLemmas
pub mod OneLinkOutcomeLemmas
pub mod UnlinkLemmas
