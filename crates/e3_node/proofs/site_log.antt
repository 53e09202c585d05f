pub mod Frames
pub mod Holding
pub mod Writes
pub mod Reasons
