mod Common
mod Words
mod WorkedRefusals
mod WorkedMoments
mod Worked
mod Numbers
mod Tally
mod TallyOrder
mod Tallied
mod Gains
pub mod Instructions
mod Turns
pub mod Sound
mod Room
mod Runs
mod SumRanges
pub mod Always
mod Refused
mod Scopes
mod Told
pub mod Forward
mod Bounded
mod TurnsMet
pub mod Nested
mod Quoted
mod QuoteSums
mod Sizes
mod NarrowRanges
mod NarrowCode
mod FewGroups
mod PutKeys
mod RowsAtMost
mod ToldBounds
mod ToldColumns
pub mod BeforePuts
pub mod EachMoment
mod MomentIndexes
