-- Whatever a legal history mentions stands before it.
pub mod Lists
mod Reading
mod Keeping
mod Handling
mod Inputs
mod Due
pub mod Holding
pub mod Laws
pub mod Begins
