pub mod OldestSoFar
pub mod Places
pub mod LockLists
pub mod Fronts
pub mod Replays
pub mod Waiting
pub mod Standing
pub mod Pairs
