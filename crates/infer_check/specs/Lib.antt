pub mod Contexts
pub mod Given
pub mod Formed
pub mod Applied
pub mod Spine
pub mod Clauses
pub mod Walks
