pub mod BodyValues
pub mod Values
pub mod RoundLemmas
pub mod FullLemmas
