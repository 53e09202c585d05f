pub mod Stops
pub mod Over
pub mod Fleets
pub mod MemoryDisks
pub mod Settling
pub mod crew
