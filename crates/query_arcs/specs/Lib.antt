pub mod Kept
pub mod Merged
pub mod Collected
pub mod Sole
pub mod Granted
pub mod Arcs
