pub mod Declaring
pub mod Entering
pub mod Shaping
pub mod Verdicts
pub mod Querying
