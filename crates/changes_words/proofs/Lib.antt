pub mod StartLaws
pub mod AppendLaws
pub mod FillLaws
