pub mod RestLaws
pub mod GatherLaws
pub mod PatternLaws
