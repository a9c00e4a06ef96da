-- Definitions that only contracts of private functions cite.
pub mod Adding
pub mod RowOrder
pub mod Flat
