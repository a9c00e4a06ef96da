-- Which program a text spells, and the text of a program.
pub mod Keywords
pub mod Lines
pub mod Numerals
pub mod Statements
pub mod Written
pub mod Said
pub mod Spelling
pub mod FirstFaults
pub mod Spellable
pub mod FaultTexts
