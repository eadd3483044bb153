pub mod Given
pub mod Finding
pub mod Commands
