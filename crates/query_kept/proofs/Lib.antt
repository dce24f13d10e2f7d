pub mod FoundLaws
pub mod KeepLaws
pub mod RowLaws
