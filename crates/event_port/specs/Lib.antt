pub mod Pollers
pub mod Desks
pub mod Moves
pub mod Running
pub mod Teams
