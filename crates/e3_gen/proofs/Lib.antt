pub mod Keeping
pub mod Growing
mod Names
