pub mod Numbers
pub mod Emits
pub mod Turns
pub mod Plain
