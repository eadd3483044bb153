pub mod Steps
pub mod Equations
pub mod Items
pub mod Follow
pub mod Complete
pub mod Theories
mod Worked
