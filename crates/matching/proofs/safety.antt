-- The strategy test: one turn of each of its loops.
pub mod SafetySteps
