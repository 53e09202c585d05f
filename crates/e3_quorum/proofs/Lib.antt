pub mod Faults
pub mod Shares
pub mod Sums
