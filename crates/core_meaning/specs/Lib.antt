pub mod Terms
pub mod Atoms
pub mod Instances
pub mod Steps
pub mod Numberings
pub mod AnswerSets
