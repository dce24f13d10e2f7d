pub mod Printed
pub mod Bytes
