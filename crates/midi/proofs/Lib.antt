-- What several proofs use: messages for the digits of a number, and the answers.
pub mod Words
pub mod Answers
