pub mod CollectionRows
pub mod HeadLemmas
pub mod PartLemmas
pub mod RequestLemmas
