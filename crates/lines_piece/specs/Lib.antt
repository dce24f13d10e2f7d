pub mod Piece
pub mod Handed
pub mod Seen
