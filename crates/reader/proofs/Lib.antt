-- What several proofs use; the questions by their answers are for other crates too.
mod Judge
mod Blank
pub mod Answers
