pub mod LeadingLemmas
pub mod RestLemmas
pub mod SettlingLemmas
pub mod ThreadLemmas
pub mod CourseLemmas
