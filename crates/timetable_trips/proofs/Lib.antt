pub mod StopLaws
pub mod TripLaws
