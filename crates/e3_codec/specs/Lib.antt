pub mod Fields
pub mod Reader
pub mod Reading
pub mod Format
pub mod Places
pub mod Claims
