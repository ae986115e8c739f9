-- What the reference program works with: what is known in a cycle, and how far it has got.
-- Source: this project's own.
pub mod FullRows
pub mod Known
pub mod KnownSamples
pub mod NodeOrder
pub mod UnderWay
