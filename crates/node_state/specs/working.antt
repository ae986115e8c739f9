-- What a delay keeps, and what one quantum does to a state. Source: this project's own.
pub mod Line
pub mod Steps
