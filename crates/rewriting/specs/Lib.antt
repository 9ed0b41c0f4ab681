-- What 01 says of evaluation, the words of demand 3, and what is promised of an evaluation that ends
pub mod Trace
pub mod Evaluation
pub mod Rewriting
pub mod Anywhere
pub mod Outcomes
pub mod Stopped
-- The evaluation as a machine
pub mod Machine
pub mod Opened
pub mod Ways
pub mod Runs
-- Inner
pub mod levels
