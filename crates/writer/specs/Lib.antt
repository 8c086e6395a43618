pub mod Writer
pub mod State
