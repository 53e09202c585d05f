pub mod Seats
pub mod Walks
