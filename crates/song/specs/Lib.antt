pub mod Song
pub mod State
