-- How the records of a log follow one another.
mod Notes
pub mod Logs
mod Rows
mod Shape
mod Few
mod Votes
pub mod Combining
pub mod Tails
