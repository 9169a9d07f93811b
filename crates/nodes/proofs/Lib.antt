pub mod Whole
pub mod Ahead
pub mod Sizes
pub mod Agree
pub mod Faults
pub mod Split
pub mod Nodes
pub mod Inverted
