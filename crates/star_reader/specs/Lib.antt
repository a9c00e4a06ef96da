pub mod Carried
pub mod Columns
pub mod Faults
pub mod Pieces
pub mod Private
pub mod Partway
