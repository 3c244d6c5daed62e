pub mod Built
pub mod TextAnswers
pub mod Texts
pub mod Journals
pub mod Promises
pub mod Outcomes
