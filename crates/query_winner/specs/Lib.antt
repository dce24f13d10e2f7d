pub mod Winning
pub mod Won
pub mod Keys
pub mod Trying
pub mod Found
pub mod Leader
