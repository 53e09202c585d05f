-- One order, from lists alone: the records of all logs, by place.
pub mod Entries
pub mod Names
pub mod Members
pub mod Values
pub mod Places
pub mod Order
pub mod Placing
pub mod Facts
pub mod Ordering
pub mod Replaying
pub mod Worlds
pub mod Tables
pub mod Laws
