pub mod Compiled
pub mod Answers
pub mod Judged
pub mod Counts
pub mod Wide
