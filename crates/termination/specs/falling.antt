-- Whether a rule falls: inner.
pub mod Counts
