pub mod Building
pub mod Given
pub mod Replies
pub mod Inputs
pub mod Setups
pub mod TermsSetups
