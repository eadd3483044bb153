pub mod Answers
pub mod Views
pub mod Laws
pub mod Parts
