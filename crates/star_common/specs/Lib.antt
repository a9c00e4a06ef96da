pub mod First
pub mod Numerals
pub mod Out
pub mod Quotes
pub mod Memory
pub mod Printable
pub mod WhiteSpace
