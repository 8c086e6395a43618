pub mod Bars
pub mod State
