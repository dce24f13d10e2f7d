pub mod Packed
pub mod Changes
pub mod Query
pub mod DirectQuery
pub mod StoreCall
pub mod Promises
pub mod WithoutWalks
pub mod Platforms
