pub mod Missing
pub mod Senders
