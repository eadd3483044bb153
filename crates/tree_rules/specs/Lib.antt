pub mod Founds
pub mod Walks
pub mod Sides
