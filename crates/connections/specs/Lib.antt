pub mod Rides
pub mod Connections
pub mod Planner
pub mod Unmarked
pub mod Platforms
pub mod WithoutWalks
pub mod Worked
pub mod Named
