pub mod Parts
pub mod Lines
pub mod Turns
pub mod Shaped
