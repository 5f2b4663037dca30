pub mod NewPlace
pub mod Plans
