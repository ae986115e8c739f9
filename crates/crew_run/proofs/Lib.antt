mod BegunLemmas
pub mod DealtLemmas
