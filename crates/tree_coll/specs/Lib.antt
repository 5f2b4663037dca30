pub mod TreeHolding
pub mod TreeOutcomes
pub mod TreePlanning
pub mod TreeRows
pub mod WorkedTreeRows
