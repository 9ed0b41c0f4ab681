-- A run in an area of words: what the contracts of `run` cite. Inner: no public contract rests on it.
pub mod RunResult
