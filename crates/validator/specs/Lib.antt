pub mod Validator
pub mod State
