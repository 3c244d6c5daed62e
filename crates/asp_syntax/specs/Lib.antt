pub mod Places
pub mod Bytes
pub mod WellFormed
pub mod Trees
