pub mod Aggregates
pub mod Apart
pub mod Exits
pub mod Viewed
pub mod Sought
pub mod Known
pub mod Options
pub mod Related
pub mod Whole
pub mod PreservedJoins
pub mod PreservedCounts
pub mod PreservedSpelling
pub mod Preserved
pub mod Conditions
pub mod PlannedQueries
mod Worked
