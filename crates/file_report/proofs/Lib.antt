pub mod Dues
pub mod Examples
pub mod Folding
pub mod Fronts
pub mod Law
pub mod Positive
pub mod Putting
pub mod WalkLines
