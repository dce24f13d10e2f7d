pub mod Stored
pub mod Words
pub mod Worked
pub mod Sequences
pub mod Nodes
pub mod RoundTrip
pub mod WithoutWalks
