pub mod Merging
pub mod Parts
pub mod Facts
pub mod Tables
pub mod Plain
pub mod Regrouping
