pub mod KeptLaws
pub mod StoredLaws
pub mod WellMade
pub mod WithoutWalks
