pub mod Maps
pub mod KeyOrder
pub mod Ordering
