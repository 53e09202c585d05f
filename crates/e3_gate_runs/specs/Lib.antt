pub mod TwoNodes
pub mod AtOnce
pub mod Marks
pub mod Workers
