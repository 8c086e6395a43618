pub mod ParserError
pub mod Expression
pub mod Bounds
pub mod State
