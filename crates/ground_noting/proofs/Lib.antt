pub mod DraftLemmas
pub mod NotingLemmas
pub mod StoringLemmas
pub mod Loops
pub mod TestGround
pub mod Adding
