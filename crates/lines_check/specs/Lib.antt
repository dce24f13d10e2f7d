pub mod Question10
pub mod Asked
pub mod Yes
pub mod Built
pub mod Ordered
