pub mod Compared
pub mod Minutes
pub mod Ending
pub mod Noted
