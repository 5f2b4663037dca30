pub mod Hundreds
pub mod MergedRows
pub mod Merges
pub mod MergesInside
pub mod Tournaments
pub mod Walks
pub mod WorkedMerges
