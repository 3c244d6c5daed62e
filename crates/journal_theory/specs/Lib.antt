pub mod Resolution
pub mod States
pub mod Covers
pub mod Events
pub mod Journals
pub mod Counting
pub mod Laws
pub mod Examples
