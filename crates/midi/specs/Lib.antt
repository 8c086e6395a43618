pub mod Midi
pub mod State
