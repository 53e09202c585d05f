pub mod steps
pub mod agreement
pub mod serial
pub mod rounds
pub mod local
pub mod brief
