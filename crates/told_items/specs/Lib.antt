pub mod Faults
pub mod Calls
pub mod Views
pub mod Logs
pub mod Equations
pub mod Solvings
