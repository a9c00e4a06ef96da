pub mod PlanWords
pub mod Entries
pub mod Contents
pub mod Limits
pub mod Pieces
pub mod Forms
pub mod Flat
pub mod Sizes
pub mod Sayable
pub mod Programs
pub mod Joins
pub mod TurnRows
pub mod SeenRows
pub mod Comparisons
pub mod Turns
pub mod Rows
pub mod Elements
pub mod KeyCodes
pub mod Answered
pub mod QueryAnswers
pub mod Plans
mod Texts
mod ForeignKeys
mod Suits
mod Accepts
mod Verdicts
mod OutsideBounds
mod Worked
