pub mod Histories
pub mod Lawful
pub mod Keeping
pub mod Holding
pub mod Replaying
pub mod Stepping
pub mod Reading
pub mod Legal
mod Rooms
