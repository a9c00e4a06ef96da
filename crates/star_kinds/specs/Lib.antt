pub mod Kinds
pub mod Private
