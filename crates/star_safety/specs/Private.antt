-- Definitions that no public clause cites.
pub mod Forward
pub mod Throughout
