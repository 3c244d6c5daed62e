pub mod Loops
pub mod FirstBad
pub mod Members
pub mod TableLemmas
pub mod GraphLemmas
pub mod Searching
pub mod Layering
pub mod Stratified
