-- What several proofs use: laws of one bar, and of all bars of a line.
pub mod Laws
pub mod Splits
