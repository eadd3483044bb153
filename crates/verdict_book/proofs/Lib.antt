pub mod Answered
pub mod Exists
pub mod Idle
pub mod Lines
pub mod Naming
pub mod Puts
