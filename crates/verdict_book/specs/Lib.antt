pub mod Books
pub mod Pieces
pub mod Places
pub mod Report
pub mod Stops
pub mod Titles
