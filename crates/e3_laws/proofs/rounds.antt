pub mod Deliveries
pub mod Phases
pub mod Verdict
pub mod Tail
pub mod Numbers
pub mod Beginning
pub mod Whole
pub mod Commits
