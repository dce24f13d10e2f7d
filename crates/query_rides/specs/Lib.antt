pub mod Riding
pub mod Ridden
pub mod Ways
