pub mod Evaluator
pub mod State
