pub mod Lines
mod SoFar
mod Ends
