pub mod Findings
pub mod Claims
pub mod Typed
pub mod Traces
