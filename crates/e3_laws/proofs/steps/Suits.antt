-- What is sent, recorded and taken suits its site.
pub mod Among
pub mod Keeping
pub mod Arriving
pub mod Gathering
pub mod Handling
pub mod Inputs
pub mod Scenarios
pub mod Turns
pub mod Binding
pub mod Suiting
pub mod Holding
pub mod Laws
