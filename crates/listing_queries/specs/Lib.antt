pub mod Query
pub mod Cut
