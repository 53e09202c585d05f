pub mod Naming
pub mod Tabling
pub mod UpSets
pub mod OneSiteMore
pub mod Passing
pub mod Walking
pub mod Standing
pub mod Tallying
