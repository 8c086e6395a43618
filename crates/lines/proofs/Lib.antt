pub mod Newlines
pub mod Takes
