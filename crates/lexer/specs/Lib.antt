pub mod Text
pub mod Words
pub mod Lexer
pub mod State
