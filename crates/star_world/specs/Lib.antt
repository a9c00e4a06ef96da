pub mod WorldOf
pub mod RowsSeen
