pub mod HomeLaws
pub mod NumberLaws
pub mod CountLaws
pub mod DrawLaws
pub mod SomeLaws
pub mod Alone
