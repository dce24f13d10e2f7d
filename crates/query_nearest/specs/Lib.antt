pub mod Bounds
pub mod Foremost
pub mod Nearest
pub mod Reached
pub mod ByLine
pub mod Gathered
