pub mod Design
pub mod Rules
pub mod Layered
pub mod Possible
pub mod Worked
pub mod Laws
