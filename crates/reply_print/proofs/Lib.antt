pub mod Pieces
pub mod Reach
pub mod RunLemmas
