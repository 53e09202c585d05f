-- A commit that is not disturbed ends at all its sites.
pub mod Beside
pub mod Packets
pub mod Effects
pub mod Shapes
pub mod Logs
pub mod Rows
pub mod Stages
pub mod Turns
pub mod Sites
pub mod Home
pub mod Others
pub mod Walk
pub mod Quorum
pub mod Begins
pub mod Ends
pub mod Sets
pub mod Whole
