pub mod Parts
pub mod Wrongs
