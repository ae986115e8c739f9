-- Lemmas on the start: the first words and views, owners, slots and seats.
pub mod SeatLemmas
pub mod StartLemmas
pub mod StartWordLemmas
pub mod BufferStartLemmas
pub mod OwnerLemmas
pub mod DealLemmas
pub mod SlotLemmas
pub mod SeatRangeLemmas
pub mod EntryLemmas
