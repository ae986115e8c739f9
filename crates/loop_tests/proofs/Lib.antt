pub mod CrewLemmas
pub mod WordLemmas
