pub mod InMemoryLemmas
