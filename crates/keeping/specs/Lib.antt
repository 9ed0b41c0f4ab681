-- What 02 (F-8) asks of the sort test and the evaluator together
pub mod Kept
