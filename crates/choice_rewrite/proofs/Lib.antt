pub mod AboveLemmas
pub mod ListedNames
pub mod SignLists
pub mod GivenLaws
