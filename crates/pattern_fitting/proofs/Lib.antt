pub mod FittingLemmas
pub mod InstanceLemmas
