pub mod Going
pub mod Showing
pub mod Local
pub mod Dealing
