pub mod Tearing
pub mod Torn
pub mod Pieces
pub mod Padding
pub mod Turns
