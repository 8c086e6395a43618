pub mod Reader
pub mod State
