mod BlankLemmas
mod StatementLemmas
mod QuestionLemmas
pub mod DraftLemmas
mod Worked
