pub mod KnownFilesLemmas
