pub mod Commands
pub mod Files
pub mod Laws
pub mod Needs
pub mod Pruned
pub mod Standing
pub mod Told
