-- What proofs of progress work with. Source: this project's own.
pub mod Order
