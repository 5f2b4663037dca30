pub mod Serving
pub mod Running
pub mod Meeting
pub mod Apart
pub mod Replies
