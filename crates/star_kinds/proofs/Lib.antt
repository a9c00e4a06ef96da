pub mod PutOperands
pub mod Lines
