-- Incarnations that are alike do the same.
pub mod Notes
pub mod Twins
pub mod Elections
pub mod Oldest
pub mod Locks
pub mod Tables
pub mod Pairs
pub mod Rules
pub mod Inputs
pub mod Steps
pub mod Lives
pub mod Opens
pub mod Laws
