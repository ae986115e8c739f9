-- What is kept while lines are read, and what ties the table to the grammar. Source: this project's own.
pub mod ParamReading
pub mod Progress
pub mod Sound
