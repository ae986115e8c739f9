-- What the notes on links mean one line of a script at a time.
-- Source: this project's own.
pub mod LinkSteps
