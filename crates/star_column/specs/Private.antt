pub mod Bounds
pub mod Codes
pub mod Edge
pub mod Words
