pub mod Along
pub mod AlongLaws
pub mod Layers
pub mod Frontiers
pub mod Ways
pub mod Bounds
pub mod Continuing
pub mod Greedy
