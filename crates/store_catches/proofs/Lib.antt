pub mod CatchLaws
pub mod KeepLaws
