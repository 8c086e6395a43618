-- What the proof of `step_at` and those of its callers use.
pub mod Laws
