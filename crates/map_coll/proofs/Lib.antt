pub mod ChosenLemmas
pub mod MarkedEntries
pub mod MarkedSizes
pub mod OneField
pub mod EntryLemmas
pub mod SizeLemmas
