pub mod NoteLemmas
pub mod RoomLemmas
pub mod WaveLemmas
pub mod WordLemmas
