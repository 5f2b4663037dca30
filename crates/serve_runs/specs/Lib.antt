pub mod Serving
pub mod Verdicts
pub mod Hiring
pub mod Ending
