-- The verdict of a round, and how the round ends by it.
pub mod Reports
pub mod Concluding
pub mod Idle
pub mod Alone
pub mod Votes
pub mod Choosing
pub mod Ending
pub mod Single
pub mod Several
