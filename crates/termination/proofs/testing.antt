-- The test by weights: one turn of its loop, and its ways out.
pub mod TestSteps
