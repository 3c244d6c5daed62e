pub mod Closable
pub mod Closings
