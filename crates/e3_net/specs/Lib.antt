pub mod Traffic
pub mod Stands
pub mod Claims
pub mod Chains
