-- Packets come to an end, by a measure that falls.
pub mod Answering
mod Counting
mod Copies
mod Logs
mod Begun
mod Issued
mod Sources
mod Falling
pub mod Settling
pub mod Ending
mod FullFrames
pub mod Left
