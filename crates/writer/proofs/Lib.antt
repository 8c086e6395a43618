-- What several proofs use: bytes written into a buffer, the parts of a spelling, and the answers.
pub mod Puts
pub mod Parts
pub mod Answers
