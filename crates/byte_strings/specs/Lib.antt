pub mod Buffer
pub mod Fitted
pub mod Laws
pub mod Lent
