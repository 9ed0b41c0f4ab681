-- The search over the rules, and the reduct: inner.
pub mod Searches
