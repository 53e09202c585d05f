pub mod Tests
pub mod Lists
pub mod Each
pub mod Undecided
pub mod Adding
pub mod Rules
pub mod Taking
pub mod Whatever
pub mod Ascending
pub mod Rows
pub mod Items
pub mod Packets
pub mod Deciding
pub mod Moving
pub mod Keeping
mod Ending
mod Freed
mod Sending
mod Inputs
mod Histories
pub mod Suits
pub mod Operations
pub mod Sound
pub mod Begun
