pub mod Prepared
pub mod Allowed
pub mod Seeking
pub mod Looking
