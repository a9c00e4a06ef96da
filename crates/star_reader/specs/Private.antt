pub mod Fronts
pub mod Extended
pub mod Lines
pub mod Steps
pub mod Cut
pub mod Open
pub mod Ended
pub mod Sound
