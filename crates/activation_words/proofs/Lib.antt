pub mod ViewLemmas
pub mod TellLemmas
pub mod CallLemmas
pub mod CheckLemmas
pub mod MemberLemmas
