-- A run from a state in an area of words: what the contracts of `run_at` cite. Inner: no public contract rests on it.
pub mod Reaches
