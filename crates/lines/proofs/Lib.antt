pub mod Behind
pub mod DirectLaws
pub mod Ordered
