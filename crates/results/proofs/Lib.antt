pub mod Domination
pub mod Picks
pub mod Answered
pub mod Kept
pub mod Best
