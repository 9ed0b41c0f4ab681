-- The lengths are true of a term around a gap
pub mod Measures
-- How they are read, from subterm to subterm
pub mod Hops
-- How they are written, with the words, from the end to the front
pub mod Writes
pub mod Pushes
-- How they are put beside words that stand there already
pub mod Lengthens
