pub mod Words
pub mod Outcomes
pub mod Ends
pub mod Ran
pub mod Commands
