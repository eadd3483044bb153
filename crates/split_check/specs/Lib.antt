pub mod Due
pub mod Laying
pub mod Steps
