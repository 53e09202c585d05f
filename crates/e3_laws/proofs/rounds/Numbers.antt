-- The numbers of elections.
pub mod Low
pub mod Handling
pub mod Hearing
pub mod Inputs
pub mod Electing
pub mod Bounding
pub mod Entries
