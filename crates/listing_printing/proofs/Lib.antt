pub mod NumberLaws
pub mod LineLaws
