pub mod Lines
pub mod DirectRides
pub mod Worked
pub mod Once
