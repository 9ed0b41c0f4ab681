-- Kinds in the evaluator's answers
pub mod Kept
