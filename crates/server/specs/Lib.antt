pub mod Text
pub mod Setup
pub mod TermsSetup
pub mod DesignSetup
pub mod LayeredSetup
pub mod Answer
pub mod Session
