pub mod AutomationLemmas
pub mod PieceLemmas
pub mod PointLemmas
