-- Inner: a step
pub mod steps
