pub mod Display
pub mod State
