pub mod Totals
pub mod Prefixes
pub mod Views
pub mod Tickets
pub mod Owners
