-- What clients were told.
pub mod Sending
pub mod Telling
pub mod Stories
pub mod Running
pub mod Rested
pub mod Helping
pub mod Stepped
pub mod GoingOn
pub mod Whole
pub mod ToldReads
