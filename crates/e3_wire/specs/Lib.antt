pub mod Marks
pub mod Wires
pub mod Stores
pub mod Claims
