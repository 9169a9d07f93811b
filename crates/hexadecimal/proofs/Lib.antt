pub mod Text
pub mod Lines
