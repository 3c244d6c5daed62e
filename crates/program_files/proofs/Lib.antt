pub mod CountLemmas
pub mod FileLemmas
pub mod Progress
pub mod Readable
