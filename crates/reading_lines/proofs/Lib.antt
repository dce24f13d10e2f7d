pub mod NumberLaws
pub mod ExtraLaws
