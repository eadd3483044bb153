pub mod Places
pub mod Events
pub mod Machine
pub mod Shown
pub mod Steps
pub mod Kept
pub mod Parts
pub mod Rooms
