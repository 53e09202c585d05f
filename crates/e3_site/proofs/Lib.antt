pub mod Standing
pub mod Alike
mod Freedom
mod Follows
mod Firsts
mod Known
mod Walking
mod Births
mod Risen
mod Merging
mod Rows
mod Cards
mod Fronts
mod Telling
pub mod Legal
pub mod Steps
pub mod AlikeTables
