pub mod Founding
pub mod Sizes
pub mod Steps
pub mod Looping
pub mod Noting
