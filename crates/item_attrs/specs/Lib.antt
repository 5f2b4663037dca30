pub mod Attributes
pub mod WorkedAttributes
