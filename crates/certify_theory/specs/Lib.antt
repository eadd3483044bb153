pub mod Parts
pub mod Faults
pub mod Ends
pub mod Putting
pub mod Laws
