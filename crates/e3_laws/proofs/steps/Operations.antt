-- The operations of a transaction go one by one.
pub mod Tracing
pub mod Counting
pub mod Freshness
pub mod Lasting
pub mod Pending
pub mod Issuing
pub mod Talks
pub mod Silence
pub mod Stepping
pub mod Speaking
pub mod Quiet
pub mod Fitting
pub mod Ordering
pub mod Numbering
