pub mod Contexts
pub mod Formed
pub mod Putting
pub mod Judging
pub mod Moving
pub mod Spines
pub mod Unwinding
pub mod Walks
