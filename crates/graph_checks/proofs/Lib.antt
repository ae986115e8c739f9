pub mod FormChecksLemmas
pub mod FreshChecksLemmas
pub mod FrontLemmas
