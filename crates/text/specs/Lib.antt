pub mod Piece
pub mod Number
pub mod Time
pub mod Range
