pub mod TreeLemmas
pub mod LoopLemmas
pub mod AnswerLemmas
