pub mod Boundary
pub mod State
