pub mod Lists
pub mod Steps
pub mod Comparing
pub mod Reducing
pub mod Taking
pub mod Selecting
pub mod Rows
pub mod Rewriting
