pub mod Interning
pub mod Nodes
pub mod Table
pub mod Measured
pub mod Refusals
pub mod Orders
