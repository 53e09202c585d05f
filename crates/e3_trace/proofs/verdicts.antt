mod Verdicts
mod Printable
mod Passing
mod Lookups
mod Telling
mod Knowing
mod Partitions
pub mod Along
pub mod Reading
