pub mod Beginnings
pub mod Minutes
pub mod Nodes
pub mod Standing
pub mod Hand
pub mod Chunk
pub mod Joining
pub mod Hope
