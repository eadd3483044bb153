pub mod Faults
pub mod Laws
pub mod Readers
pub mod Reads
pub mod Shaped
pub mod Tied
pub mod Told
