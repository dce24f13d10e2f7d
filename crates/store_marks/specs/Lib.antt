pub mod Arrays
pub mod Riding
pub mod Held
pub mod Reaching
pub mod Stepping
pub mod Ways
pub mod Marking
