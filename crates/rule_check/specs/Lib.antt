pub mod Mentioned
pub mod Levels
pub mod Founds
pub mod Bindings
pub mod Equations
pub mod Steps
pub mod Given
pub mod Clauses
