-- What several proofs use, and closed cases.
pub mod Choices
mod Walks
mod Specimens
