-- What several proofs use.
mod Six
pub mod Rows
mod Effects
mod Coded
mod Walk
pub mod Laws
