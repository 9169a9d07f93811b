pub mod Action
pub mod Names
pub mod Pairs
pub mod Contents
