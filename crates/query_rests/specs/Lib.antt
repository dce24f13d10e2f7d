pub mod Given
pub mod Spans
pub mod Settling
pub mod Rests
pub mod Stepping
pub mod Turns
