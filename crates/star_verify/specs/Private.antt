-- Definitions that no public clause cites.
pub mod Views
pub mod Bounded
pub mod Made
pub mod Kept
pub mod CheckResults
pub mod Rows
pub mod StepResults
