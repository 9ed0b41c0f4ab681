-- The length of the term after a step: what the proof of `size_after` cites.
pub mod Sizes
