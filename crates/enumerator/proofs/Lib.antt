pub mod Calls
pub mod Ends
pub mod TestRules
pub mod Books
