pub mod Alike
pub mod Laws
pub mod Incarnations
pub mod IncarnationLaws
pub mod Sets
