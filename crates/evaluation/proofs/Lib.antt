-- What the evaluator answers, at each of its checks and after a run, and what it hands back
pub mod Expanding
pub mod Handed
