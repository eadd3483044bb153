pub mod Matching
pub mod Items
pub mod Taken
pub mod Checked
pub mod Certificates
pub mod Theories
pub mod Laws
