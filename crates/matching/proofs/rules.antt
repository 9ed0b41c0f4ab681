-- The search over the rules: one word of a left side, and each way out of a turn.
pub mod MatchSteps
pub mod Binds
pub mod Searches
pub mod Finding
pub mod Lists
