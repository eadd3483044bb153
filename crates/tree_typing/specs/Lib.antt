pub mod Given
pub mod Contexts
pub mod Clauses
pub mod Steps
