pub mod AllNumbers
pub mod Wrote
