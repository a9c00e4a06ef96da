pub mod Repeats
pub mod Apart
pub mod Rising
pub mod KeyLists
pub mod Dense
pub mod Copies
pub mod Found
pub mod Positions
pub mod Placed
pub mod Refers
pub mod ReferredRows
pub mod Loading
pub mod SmallNumbers
mod WorkedBounds
