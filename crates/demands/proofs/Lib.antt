-- Demands 1 and 3 of the evaluator's answers, records and their replay, the curve, weights, and the starred cases
pub mod Demand1
pub mod Demand3
pub mod Stopped
pub mod Retracing
pub mod Square
pub mod Finite
