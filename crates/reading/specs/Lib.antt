pub mod Reply
pub mod Next
pub mod Lines
pub mod Reading
pub mod Model
