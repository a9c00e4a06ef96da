pub mod Report
pub mod Columns
