pub mod Orders
pub mod SameSites
pub mod SetSteps
pub mod Ascending
pub mod Edits
