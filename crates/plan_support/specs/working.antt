-- What only the makers of plans go by. Source: this project's own.
pub mod Ready
