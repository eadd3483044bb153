pub mod Placing
pub mod Counting
pub mod Matched
pub mod Firings
pub mod Stepping
pub mod Solutions
