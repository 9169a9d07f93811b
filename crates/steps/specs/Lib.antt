pub mod Meaning
pub mod Laws
pub mod Refusals
pub mod Answers
pub mod Beginning
