pub mod Lines
pub mod Names
pub mod Private
pub mod Reports
pub mod Sessions
pub mod ReportSinks
