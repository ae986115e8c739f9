pub mod ChunksLemmas
pub mod PiecesLemmas
pub mod WavReadingLemmas
