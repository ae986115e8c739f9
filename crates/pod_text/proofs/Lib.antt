mod GainLemmas
mod DecibelLemmas
mod SequenceLemmas
mod AnswerLemmas
mod ChoiceLemmas
mod OfferLemmas
mod DumpLemmas
mod Grown
