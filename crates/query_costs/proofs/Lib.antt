pub mod LowestLaws
pub mod RideLaws
pub mod StepLaws
pub mod PatternLaws
