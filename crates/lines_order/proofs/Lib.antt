pub mod MoveLaws
pub mod PlaceLaws
pub mod OrderLaws
pub mod ChangedLaws
