pub mod Interval
pub mod Stored
