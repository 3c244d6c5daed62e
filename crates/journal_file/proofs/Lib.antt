pub mod BehindLemmas
pub mod TermLemmas
pub mod WriteLemmas
