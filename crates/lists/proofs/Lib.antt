pub mod ListLemmas
pub mod Places
