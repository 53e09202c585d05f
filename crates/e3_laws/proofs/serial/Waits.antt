-- Waits of transactions for one another.
pub mod Clashing
pub mod Taking
pub mod Holders
pub mod Granting
pub mod Standing
pub mod Cycles
pub mod Waiting
