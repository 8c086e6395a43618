-- What several proofs use.
mod Order
