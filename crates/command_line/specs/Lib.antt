pub mod Parts
pub mod Requests
pub mod Usage
pub mod Views
pub mod Words
