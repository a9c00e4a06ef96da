mod Common
pub mod Totals
pub mod Merging
pub mod LoadableParts
pub mod Facts
pub mod Values
pub mod Many
pub mod Rows
pub mod Fits
pub mod PartialFacts
pub mod Regrouping
