pub mod Picking
pub mod Chosen
pub mod Shown
