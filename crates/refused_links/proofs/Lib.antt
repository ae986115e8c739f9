pub mod HeldLemmas
pub mod PartingLemmas
pub mod RefusedLemmas
pub mod LinesLemmas
pub mod OneAnswerLemmas
