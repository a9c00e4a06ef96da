pub mod RefusalTexts
pub mod Views
pub mod Checked
pub mod Facts
pub mod Private
