-- What is drawn for a number, as the code holds it. Source: this project's own.
pub mod Drawing
