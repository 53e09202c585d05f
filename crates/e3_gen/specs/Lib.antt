pub mod Draws
pub mod Items
pub mod Generated
