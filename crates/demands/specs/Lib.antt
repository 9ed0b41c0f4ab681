-- What demands 1 and 3 ask of the evaluator's answers, what 02 asks of records (F-3), of the curve (F-4) and of weights (F-6), and the starred cases
pub mod Demand1
pub mod Demand3
pub mod Retracing
pub mod Square
pub mod Finite
