pub mod Steps
pub mod Exchange
pub mod Meet
pub mod Carry
pub mod Join
