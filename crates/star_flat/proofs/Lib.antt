pub mod CodesKept
pub mod CutLemmas
pub mod Different
pub mod EndsLemmas
pub mod Enumerated
pub mod InOrder
pub mod Keys
pub mod Pushed
pub mod RepeatedLemmas
mod WorkedRepeated
