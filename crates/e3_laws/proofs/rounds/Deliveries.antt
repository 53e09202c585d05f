-- One delivery after the other.
pub mod Queue
pub mod Steps
pub mod Forced
pub mod Parts
pub mod Walking
pub mod Delivering
pub mod Counted
pub mod Gathering
