pub mod KeyValueRows
pub mod LineLemmas
pub mod RowLemmas
