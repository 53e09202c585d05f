pub mod Lists
pub mod Step
pub mod Site
pub mod Told
pub mod Waits
pub mod Orderly
