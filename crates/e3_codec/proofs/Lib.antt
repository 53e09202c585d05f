pub mod Times
pub mod Formats
pub mod Records
pub mod Apart
pub mod Pieces
