pub mod Listing
pub mod Counts
pub mod Contents
pub mod Text
