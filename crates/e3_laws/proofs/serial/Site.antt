-- One site, along a sound trail.
pub mod Holding
pub mod Recording
pub mod Parting
pub mod Answers
pub mod Rightness
pub mod Voting
pub mod Keeping
pub mod Sites
pub mod Serial
