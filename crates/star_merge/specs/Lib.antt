pub mod Cells
pub mod Merged
pub mod Private
