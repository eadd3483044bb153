pub mod Histories
pub mod Passes
