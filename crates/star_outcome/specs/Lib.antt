pub mod Sound
pub mod SoundKeys
pub mod Done
pub mod Yields
pub mod Private
