pub mod Cutting
pub mod Numbers
mod Rows
pub mod Words
