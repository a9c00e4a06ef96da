-- Definitions that only contracts of private functions cite.
pub mod Views
pub mod Stops
pub mod Runs
pub mod Puts
pub mod Acts
pub mod Walks
