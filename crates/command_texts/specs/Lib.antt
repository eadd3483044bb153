pub mod Cutting
pub mod Spans
