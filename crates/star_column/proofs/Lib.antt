pub mod BitLists
pub mod Coded
pub mod Differences
pub mod Edges
pub mod Extremes
pub mod Fronts
pub mod Lowest
pub mod Masks
pub mod Numbers
pub mod Repeats
pub mod Views
mod Worked
