pub mod Alls
pub mod Logs
pub mod Changing
mod Claiming
mod Reading
mod Closing
