pub mod Turns
pub mod Workers
pub mod Forks
pub mod Crews
pub mod Drops
