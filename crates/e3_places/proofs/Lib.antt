mod Hearing
mod Arriving
mod Voting
mod Locking
mod Alike
mod Rowing
mod Reaching
mod Looping
mod Ascending
mod Putting
mod Fronting
mod Finding
mod Risen
mod Entering
mod Turning
pub mod Logged
