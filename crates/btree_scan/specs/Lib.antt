pub mod Descents
pub mod Directions
pub mod Positions
pub mod Spans
pub mod Unread
pub mod Walks
pub mod Ways
