pub mod Moving
pub mod Closing
pub mod Walking
pub mod Naming
