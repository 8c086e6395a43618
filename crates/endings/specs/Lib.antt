pub mod Endings
pub mod State
