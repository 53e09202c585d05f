-- The phases of a round.
pub mod Rows
pub mod Asked
pub mod Heard
pub mod Joined
pub mod Decided
pub mod Members
pub mod Reported
pub mod Winning
pub mod Acknowledged
pub mod Won
pub mod Turning
pub mod Walked
pub mod Decisive
pub mod Turns
pub mod Numbering
pub mod Due
