pub mod Listed
pub mod Paired
