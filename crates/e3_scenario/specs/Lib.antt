pub mod Words
pub mod Parts
pub mod Items
pub mod Documents
pub mod Faults
pub mod Steps
pub mod Scenarios
pub mod Indexes
