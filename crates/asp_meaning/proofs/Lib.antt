pub mod LineLemmas
pub mod Decimals
pub mod Layers
pub mod ValueOrder
pub mod AtomOrder
