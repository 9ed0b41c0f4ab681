-- What the evaluator (01: the expander) answers
pub mod Expansion
pub mod scanned
