pub mod Agreeing
pub mod Modules
pub mod Passing
pub mod Steps
pub mod Telling
