-- The guards by which a step tests what it records do not fail in a legal history.
pub mod Voted
pub mod Calm
pub mod Quiet
pub mod Leading
pub mod Keeping
pub mod Asking
pub mod Trails
pub mod Open
pub mod Gathering
pub mod Acting
pub mod Reported
pub mod Doing
