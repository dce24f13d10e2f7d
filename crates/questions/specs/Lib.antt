pub mod Question
pub mod Refused
