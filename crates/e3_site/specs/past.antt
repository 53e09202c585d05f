pub mod Opening
pub mod Standing
pub mod Stepping
pub mod Claims
pub mod Fresh
pub mod Knowing
