pub mod Waiting
pub mod Parts
pub mod PipeText
pub mod Reaching
pub mod WorkedPipes
pub mod Writing
