-- The record of the steps: what the contracts of `recording` cite. Inner: no public contract rests on it.
pub mod Kept
