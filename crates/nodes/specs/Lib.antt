pub mod Whole
pub mod Grammars
pub mod Nodes
pub mod Shapes
