pub mod House
pub mod Question
