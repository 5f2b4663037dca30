pub mod Hiring
pub mod Disbanding
pub mod Running
mod Serving
