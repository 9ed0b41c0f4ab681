-- How a term lies in lent words, with its lengths
pub mod Rows
pub mod Measured
-- Inner: what the layers above ask of the functions
pub mod gap
pub mod lengths
