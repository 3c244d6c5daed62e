pub mod Patterns
pub mod Unifiers
pub mod Solving
pub mod Opening
