-- Definitions that only contracts of private functions cite.
pub mod Asking
pub mod Errands
pub mod Steps
pub mod FailedWrites
pub mod Reads
