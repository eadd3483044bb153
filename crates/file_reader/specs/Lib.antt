pub mod Counts
pub mod Held
pub mod Nexts
pub mod Progress
pub mod Rooms
