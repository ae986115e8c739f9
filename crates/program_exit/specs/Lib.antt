pub mod Said
pub mod Sentence
pub mod Exit
