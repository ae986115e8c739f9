pub mod BoardLemmas
pub mod CellLemmas
pub mod DealLemmas
pub mod FrameLemmas
pub mod OpeningLemmas
pub mod SafetyLemmas
pub mod SeatLemmas
pub mod ShelfLemmas
