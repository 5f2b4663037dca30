pub mod Script
pub mod Output
pub mod Runs
pub mod Reading
pub mod Dealing
pub mod Serving
