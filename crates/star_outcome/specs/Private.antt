-- Definitions that only contracts of private functions cite.
pub mod Placed
pub mod RowOrder
pub mod Leads
pub mod Decoded
