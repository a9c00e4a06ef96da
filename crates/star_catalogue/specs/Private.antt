pub mod Columns
pub mod Indexes
pub mod Indexed
pub mod Keys
pub mod Kept
pub mod FiveTables
pub mod Referred
