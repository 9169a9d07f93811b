pub mod History
pub mod Views
pub mod Told
pub mod Plain
pub mod Reports
