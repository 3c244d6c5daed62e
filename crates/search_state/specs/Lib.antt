pub mod Searching
pub mod Moves
pub mod Grounding
pub mod Joined
pub mod Noting
pub mod Underivable
pub mod Promised
