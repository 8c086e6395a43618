-- What several proofs use: the bytes of a record and the record of bytes, the answers, the steps and the keys that sound.
pub mod Bytes
pub mod Answers
pub mod Steps
pub mod Sounding
