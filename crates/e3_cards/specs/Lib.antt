pub mod Seeing
pub mod Issued
pub mod Arriving
pub mod Electing
pub mod Cards
pub mod Tables
pub mod Readings
pub mod Noting
