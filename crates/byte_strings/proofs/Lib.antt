pub mod Fitted
pub mod Lists
pub mod Over
