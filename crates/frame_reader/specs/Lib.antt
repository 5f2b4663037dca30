pub mod Buffers
pub mod Cutting
pub mod Fronts
pub mod Progress
pub mod Units
