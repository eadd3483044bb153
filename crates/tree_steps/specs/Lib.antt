pub mod Places
pub mod Shapes
pub mod Counts
pub mod Conditions
pub mod Firing
pub mod Equations
pub mod Views
pub mod Items
