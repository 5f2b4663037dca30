pub mod Sessions
pub mod Ports
pub mod Workers
pub mod Apart
