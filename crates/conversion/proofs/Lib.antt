pub mod Winding
pub mod Serving
mod Filling
mod Opening
mod Unfolding
mod Turning
mod Resting
mod Selecting
mod Pausing
mod Evaluating
mod Comparing
mod Waiting
mod Pooling
mod Treeing
pub mod Raising
mod Telling
mod Told
mod Asking
