pub mod Answers
pub mod Commands
pub mod Failures
pub mod FolderLoads
pub mod Private
pub mod ReadFolders
pub mod Stores
