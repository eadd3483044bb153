pub mod Told
pub mod Moved
pub mod Parts
pub mod Meetings
pub mod Ends
pub mod Folding
pub mod Firing
