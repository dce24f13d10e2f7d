pub mod AskedLaws
pub mod AfterLaws
pub mod CancelLaws
pub mod AddLaws
