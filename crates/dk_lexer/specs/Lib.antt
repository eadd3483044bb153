pub mod Classes
pub mod Spelling
pub mod Tokens
pub mod Given
pub mod Pieces
