pub mod Awaited
pub mod Numbered
pub mod Beside
pub mod Answering
pub mod Refusing
