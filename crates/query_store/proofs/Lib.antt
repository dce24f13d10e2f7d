pub mod EntryLaws
pub mod TestLaws
pub mod ReadLaws
pub mod RepeatLaws
