mod PrintingFailures
mod WorkedFailures
pub mod Giving
pub mod Loading
pub mod FolderReads
mod KnownFiles
mod Steps
mod Zips
