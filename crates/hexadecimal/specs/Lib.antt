pub mod Digits
pub mod Hex
pub mod Line
