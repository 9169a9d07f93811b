pub mod Mask
pub mod Renaming
pub mod Promises
pub mod Laws
