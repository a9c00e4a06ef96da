-- Definitions that no public clause cites.
pub mod StoredCode
pub mod Smaller
pub mod Followed
pub mod Doing
pub mod Returns
pub mod Within
pub mod Reading
pub mod Drafts
pub mod Kept
