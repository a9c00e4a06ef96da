-- Lemmas on the text of programs.
mod WorkedTexts
pub mod Positions
pub mod LineLemmas
pub mod WordLemmas
pub mod WrittenLemmas
pub mod Depths
pub mod Quotes
pub mod ListLemmas
pub mod OneProgram
pub mod FaultLemmas
pub mod AddedStatements
pub mod PassedLines
pub mod NoFault
pub mod SpelledWords
pub mod Spelled
pub mod Sayable
pub mod Takes
pub mod Faultless
