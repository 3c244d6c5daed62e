pub mod Instances
pub mod Drafts
pub mod Notings
