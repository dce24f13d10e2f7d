pub mod PassLaws
pub mod PointLaws
pub mod RowLaws
