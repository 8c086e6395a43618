pub mod Places
pub mod Octets
pub mod Sets
pub mod Wanting
