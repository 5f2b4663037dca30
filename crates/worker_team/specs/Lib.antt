pub mod Team
pub mod Disbanding
