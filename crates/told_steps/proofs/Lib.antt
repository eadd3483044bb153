pub mod Steps
pub mod Folding
pub mod Firings
