pub mod EndLaws
pub mod NoteLaws
pub mod LeadLaws
