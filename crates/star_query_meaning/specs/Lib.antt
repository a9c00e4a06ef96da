pub mod Rows
pub mod Shows
pub mod Answers
pub mod Reports
pub mod Fitting
