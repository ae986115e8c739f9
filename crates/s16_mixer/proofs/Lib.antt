pub mod ShiftLemmas
pub mod RowLemmas
pub mod FrameLemmas
pub mod LaneLemmas
pub mod PeakLemmas
pub mod WithinLemmas
