pub mod MakeLaws
pub mod PrintLaws
pub mod ShownLaws
