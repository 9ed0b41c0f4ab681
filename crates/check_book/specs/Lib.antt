pub mod Verdict
-- The lines: inner
pub mod lines
