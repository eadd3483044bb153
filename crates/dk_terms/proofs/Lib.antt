pub mod Framed
pub mod Spelt
pub mod Stacked
pub mod Whole
