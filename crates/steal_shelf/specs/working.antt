-- How a cell steps through the boards, and a seat through the shelf. Source: this project's own.
pub mod CellSteps
pub mod ShelfSteps
pub mod Tokens
