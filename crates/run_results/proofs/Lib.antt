pub mod LineLemmas
pub mod StatusLemmas
pub mod StatusLineLemmas
