mod Idle
mod Somewhere
pub mod Asides
