pub mod ChangeLemmas
pub mod InsertLemmas
pub mod MapLemmas
pub mod ReadLemmas
pub mod RowLemmas
pub mod SizeLemmas
