pub mod Lists
pub mod Binding
