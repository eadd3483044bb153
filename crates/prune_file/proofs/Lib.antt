pub mod Chosen
pub mod Needs
pub mod Picks
pub mod Pruned
pub mod Reports
pub mod Scans
pub mod Walks
