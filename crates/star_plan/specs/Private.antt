pub mod Answers
pub mod Found
pub mod Stages
