pub mod Base
pub mod States
pub mod Shapes
pub mod Reasons
