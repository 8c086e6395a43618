-- What several proofs use: where the bars of a line start, and where the bar of a number lies.
pub mod Spots
pub mod Starts
