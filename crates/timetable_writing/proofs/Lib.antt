pub mod WriteLaws
pub mod CopyLaws
