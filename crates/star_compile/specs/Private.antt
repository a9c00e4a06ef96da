-- Definitions that no public clause cites.
pub mod Emitted
pub mod Shown
