-- Whether a rule falls: the variables of its sides, counted.
pub mod Counting
