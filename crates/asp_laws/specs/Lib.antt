pub mod Words
pub mod Reduct
pub mod Examples
pub mod Laws
pub mod ReadableAtoms
