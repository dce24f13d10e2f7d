pub mod Rowed
pub mod Leading
pub mod Written
pub mod Named
