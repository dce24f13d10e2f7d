pub mod CursorLaws
pub mod WaysLaws
