pub mod EndLaws
pub mod TextLaws
