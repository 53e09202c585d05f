pub mod Recalled
pub mod Readying
mod Undecided
pub mod Known
pub mod RecordsFollow
pub mod MayFollow
mod Taking
