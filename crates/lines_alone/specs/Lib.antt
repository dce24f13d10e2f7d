pub mod Drawn
pub mod Redrawn
pub mod Alone
pub mod Facts
