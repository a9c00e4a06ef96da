-- Definitions that no public clause cites.
pub mod Shares
pub mod Shown
pub mod Checked
pub mod Outcomes
pub mod Written
pub mod Digits
pub mod Inside
