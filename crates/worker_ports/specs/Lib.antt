pub mod Hands
pub mod Returns
