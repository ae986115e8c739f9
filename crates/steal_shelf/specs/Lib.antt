pub mod Cells
pub mod Fetching
pub mod NewShelf
pub mod ShelfRule
pub mod ShelfSafety
pub mod ShelfReach
pub mod Seats
pub mod working
