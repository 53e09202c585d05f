pub mod Standing
pub mod Keeping
pub mod Touching
pub mod Granting
pub mod Rising
pub mod Noting
