pub mod WordAtLaws
pub mod CountLaws
pub mod WalkToLaws
