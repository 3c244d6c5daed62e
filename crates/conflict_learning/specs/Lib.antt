pub mod FirstValues
pub mod Analysing
pub mod Pending
pub mod Choosing
pub mod Laws
