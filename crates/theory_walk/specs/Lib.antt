pub mod BookNames
pub mod BookReadings
pub mod Libraries
pub mod Lines
pub mod Walks
