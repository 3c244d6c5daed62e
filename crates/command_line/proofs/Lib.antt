pub mod NumberLemmas
pub mod CommandLemmas
pub mod PlainLemmas
pub mod Example
pub mod Bounds
