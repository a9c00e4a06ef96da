pub mod Blanks
pub mod Statements
pub mod Questions
pub mod Sources
pub mod Views
pub mod Private
