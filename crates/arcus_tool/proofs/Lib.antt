pub mod Ending
pub mod Completeness
pub mod Opening
pub mod Running
