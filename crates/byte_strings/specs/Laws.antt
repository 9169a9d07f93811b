-- What the impls of this crate owe and no clause states: nothing here has to be believed.
pub mod Places
