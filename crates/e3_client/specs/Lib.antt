pub mod Clients
pub mod Rule
