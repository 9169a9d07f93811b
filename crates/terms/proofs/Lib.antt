pub mod Follows
pub mod Unfolding
pub mod Added
pub mod Answered
pub mod Bodies
pub mod Rules
