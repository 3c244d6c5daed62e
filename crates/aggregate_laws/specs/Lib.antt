pub mod Rules
pub mod Totals
pub mod Uses
pub mod TotalsInBodies
pub mod Laws
