pub mod Ends
pub mod Rooms
pub mod Shelved
pub mod Shelves
pub mod Stacks
pub mod Turns
pub mod Walkers
