-- Definitions that the contracts of star_group cite.
pub mod Stores
pub mod Cells
pub mod Batches
pub mod OneMore
pub mod BaseKeys
pub mod Held
pub mod Eager
pub mod Base
pub mod Keyed
pub mod Entries
pub mod Deferred
pub mod Ids
pub mod ById
pub mod ArrayStores
pub mod StoreRows
pub mod Private
