-- Positions go into no part of an answer but the positions of its errors.
pub mod Pairs
pub mod Folds
pub mod Steps
pub mod Parses
pub mod Answers
