pub mod Promises
pub mod MaskAnswers
