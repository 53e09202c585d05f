-- What one step of a site comes to.
pub mod Rules
pub mod Walk
pub mod Shapes
pub mod Arrivals
pub mod Steadying
pub mod Answering
pub mod Stepping
pub mod Knowing
