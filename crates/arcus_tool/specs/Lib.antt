pub mod Session
pub mod Statuses
pub mod Running
