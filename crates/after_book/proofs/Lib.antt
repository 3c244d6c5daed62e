pub mod ReadableLemmas
pub mod PartsLemmas
pub mod NothingLemmas
pub mod BookLemmas
pub mod ReadLemmas
pub mod SetsOfLines
