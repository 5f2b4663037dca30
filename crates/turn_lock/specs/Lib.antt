pub mod Calls
pub mod View
pub mod Rule
pub mod Moves
pub mod Seats
pub mod Trials
pub mod Laws
