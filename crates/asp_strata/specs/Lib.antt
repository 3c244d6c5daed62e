pub mod Predicates
pub mod PredicateLaws
pub mod Recursion
pub mod Firsts
pub mod Faults
pub mod Strata
pub mod Graphs
