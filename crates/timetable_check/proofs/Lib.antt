pub mod TestLaws
pub mod CheckLaws
pub mod DecideLaws
