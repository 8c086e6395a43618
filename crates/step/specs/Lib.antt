pub mod Context
pub mod Effect
pub mod Interval
pub mod Step
pub mod Bounds
