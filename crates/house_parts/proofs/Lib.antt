pub mod Bools
pub mod Tests
pub mod Nothing
