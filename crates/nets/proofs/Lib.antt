mod Stored
mod Spelling
mod Naming
mod Sets
pub mod ByRules
pub mod Places
mod Answered
