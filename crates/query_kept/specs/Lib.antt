pub mod Choosing
pub mod Keeping
