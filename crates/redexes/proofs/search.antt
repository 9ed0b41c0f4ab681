-- The search in the rows: what a word of a left side takes there, and the turns of the loops.
pub mod SomeWords
pub mod Taking
pub mod Unparted
pub mod Binds
pub mod Tries
-- What is found there is the first redex.
pub mod Found
