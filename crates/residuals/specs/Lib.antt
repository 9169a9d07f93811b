pub mod Sink
pub mod Steps
