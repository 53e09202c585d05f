pub mod Chronicles
pub mod Rule
pub mod Steps
pub mod Passes
