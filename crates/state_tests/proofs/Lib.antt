pub mod CarriedLemmas
pub mod ChainLemmas
