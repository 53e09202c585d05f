pub mod Members
pub mod Taking
