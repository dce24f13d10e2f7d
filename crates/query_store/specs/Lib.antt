pub mod Entries
pub mod Paths
pub mod Repeats
pub mod Depths
pub mod Tests
pub mod Made
pub mod Granted
