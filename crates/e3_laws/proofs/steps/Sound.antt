-- Trails are sound, and names differ.
pub mod Clocks
pub mod Sounding
pub mod Parting
pub mod Naming
