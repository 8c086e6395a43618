pub mod Parts
pub mod Types
pub mod Ranges
