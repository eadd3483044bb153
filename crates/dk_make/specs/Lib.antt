pub mod Texts
pub mod Theory
