-- Lemmas on lists of any things: elements, places, pairs, and lists in one order.
pub mod ElementLemmas
pub mod PlaceLemmas
pub mod SameListLemmas
pub mod AllZipLemmas
