pub mod BaseLemmas
pub mod Settled
