pub mod Showing
pub mod Prices
pub mod Foremost
pub mod Heads
pub mod Turns
pub mod Going
pub mod OnTheWay
