-- The walk to a position of the term: what the contracts of `walk` cite. Inner: no public contract rests on it.
pub mod Descent
pub mod Way
