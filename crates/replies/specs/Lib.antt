pub mod Reply
pub mod Replies
pub mod Later
