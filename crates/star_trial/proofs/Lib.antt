pub mod Registers
pub mod EagerStores
pub mod Checked
pub mod Performed
pub mod Turned
