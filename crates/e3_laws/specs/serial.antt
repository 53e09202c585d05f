pub mod Ordered
pub mod Claims
pub mod Waiters
pub mod Waits
pub mod InLine
pub mod Turns
pub mod Orderly
