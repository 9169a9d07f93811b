pub mod Pages
pub mod Standing
