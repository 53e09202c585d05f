pub mod Places
pub mod Readings
pub mod Seats
pub mod Through
pub mod Entered
pub mod Asking
pub mod FallsAndRises
