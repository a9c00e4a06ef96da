pub mod Trials
pub mod FaultTexts
pub mod Private
