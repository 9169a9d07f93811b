pub mod Poured
pub mod Labels
pub mod Onto
pub mod Left
pub mod Back
pub mod Misfits
pub mod Lengths
