pub mod Waiting
pub mod Claims
pub mod Bounds
pub mod Trails
pub mod Mentions
pub mod Begun
pub mod Sending
