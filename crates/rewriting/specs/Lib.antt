pub mod Parts
pub mod Lifting
pub mod Numbering
pub mod CoreRules
pub mod Laws
