pub mod ClearLemmas
pub mod PartLemmas
pub mod TreeRows
