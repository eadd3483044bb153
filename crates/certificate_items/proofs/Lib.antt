pub mod Rows
pub mod Begins
pub mod Cutting
pub mod Told
pub mod Longer
pub mod Firsts
pub mod Fronts
