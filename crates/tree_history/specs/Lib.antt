pub mod Agreement
pub mod Kept
pub mod TreeEntries
pub mod TreeKinds
pub mod WorkedKept
