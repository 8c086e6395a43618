pub mod Store
pub mod Bits
pub mod Semitones
pub mod Whole
