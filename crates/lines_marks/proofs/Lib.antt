pub mod MarkLaws
pub mod NumberLaws
