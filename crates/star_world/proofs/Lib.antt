pub mod Found
pub mod Loaded
pub mod TextBounds
mod RowsSeen
mod Worked
