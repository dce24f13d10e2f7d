pub mod MarkLaws
pub mod TakeLaws
pub mod LayLaws
pub mod StoreLaws
