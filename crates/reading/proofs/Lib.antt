pub mod YesLaws
pub mod TakeLaws
pub mod DraftLaws
pub mod LoopLaws
pub mod CountLaws
pub mod ReadLaws
