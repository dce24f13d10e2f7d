pub mod Found
pub mod Extra
