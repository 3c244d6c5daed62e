pub mod TermLemmas
pub mod Sets
pub mod Rows
pub mod Settling
pub mod Locals
pub mod Bridge
pub mod Finding
pub mod Exclusion
