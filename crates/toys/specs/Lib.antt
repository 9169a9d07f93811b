pub mod Sum
pub mod Sequential
pub mod Commuting
