pub mod QueryLaws
pub mod LineLaws
