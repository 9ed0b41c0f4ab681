-- The evaluation of a term in an area of words: what the proofs of `run` cite.
pub mod Enough
pub mod Ending
