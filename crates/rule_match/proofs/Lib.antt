mod Refining
mod Grouping
mod Compiling
mod Siding
pub mod Walking
mod Winding
pub mod Opening
mod Capturing
pub mod Growing
mod Through
mod Keying
mod Trying
mod Following
mod Matching
mod Placing
mod Asking
pub mod Telling
pub mod Larger
mod Starting
mod Seeing
