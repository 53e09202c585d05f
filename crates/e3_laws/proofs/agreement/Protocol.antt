-- The protocol of one transaction, without its sites' steps.
pub mod Logs
pub mod Agree
pub mod Grow
pub mod Keep
pub mod Shares
pub mod Ruled
pub mod Reached
pub mod Built
