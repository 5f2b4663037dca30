pub mod ListContents
