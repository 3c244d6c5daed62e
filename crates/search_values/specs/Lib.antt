pub mod Values
pub mod Nogoods
pub mod Instances
pub mod Tables
pub mod Numberless
pub mod Ids
