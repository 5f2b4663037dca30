pub mod Handing
pub mod Accounts
pub mod Ending
mod Ports
