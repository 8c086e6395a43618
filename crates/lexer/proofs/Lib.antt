mod Words
pub mod Runs
mod Chains
pub mod Longest
pub mod Heads
mod Shifts
mod Steps
pub mod Ranges
