pub mod Replays
pub mod Standing
