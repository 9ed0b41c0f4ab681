-- What the moves of words, and what is laid out in lent words, are told by. Inner: no public contract rests on it.
pub mod Parts
pub mod Fronts
