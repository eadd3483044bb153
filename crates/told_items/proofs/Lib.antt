pub mod Solving
pub mod Goings
pub mod Answers
pub mod Telling
pub mod Commands
