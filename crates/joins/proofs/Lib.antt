pub mod Asking
pub mod Carrying
pub mod Joining
