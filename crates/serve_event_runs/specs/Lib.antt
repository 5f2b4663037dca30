pub mod Hiring
