pub mod Ranges
pub mod Sums
pub mod Products
mod Worked
