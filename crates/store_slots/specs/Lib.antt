pub mod Slots
pub mod SlotLaws
pub mod Writing
pub mod Listing
