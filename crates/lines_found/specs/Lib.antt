pub mod Grouped
pub mod Worked
pub mod Bounds
pub mod Steps
pub mod Joined
pub mod Glance
pub mod Chains
pub mod Taken
