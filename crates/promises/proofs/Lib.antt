pub mod Shown
pub mod FromWords
pub mod FromAfresh
pub mod Proved
pub mod ChangesProved
pub mod Platforms
pub mod WithoutWalks
