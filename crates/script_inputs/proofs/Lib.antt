pub mod NarrowedLemmas
pub mod SoundInputsLemmas
pub mod LineLemmas
pub mod ScriptInputsLemmas
mod WorkedRows
