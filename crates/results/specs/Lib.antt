pub mod Results
pub mod Worked
