-- Lemmas on events: tickets, the log, legal cycles, late sets, and the end of a board.
pub mod LogLemmas
pub mod LegalCycleLemmas
pub mod BitLemmas
pub mod LateLemmas
pub mod DrawLemmas
pub mod MarkLemmas
pub mod TickLemmas
pub mod TicketLemmas
pub mod EventLemmas
pub mod CheckStepsLemmas
pub mod SoundLemmas
pub mod ClosingLemmas
pub mod FinishLemmas
