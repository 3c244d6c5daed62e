pub mod Terms
pub mod Lines
