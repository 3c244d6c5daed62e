pub mod FreeLemmas
pub mod TableLemmas
pub mod LiftLemmas
pub mod Building
