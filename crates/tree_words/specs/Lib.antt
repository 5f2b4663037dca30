pub mod AttrGrammar
pub mod AttrTexts
pub mod Exact
pub mod Reading
pub mod TreeGrammar
pub mod TreeLines
pub mod WorkedTreeLines
