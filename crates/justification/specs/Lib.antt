pub mod Heads
pub mod TestRuns
