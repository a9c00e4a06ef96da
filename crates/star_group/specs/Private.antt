-- Definitions that only contracts of private functions cite.
pub mod Rows
pub mod Given
pub mod Merged
pub mod Tries
pub mod Numbers
pub mod Coarser
pub mod Taken
pub mod ArrayPut
