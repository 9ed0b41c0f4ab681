-- Active positions by computing
pub mod Activity
-- The walk to a position: inner
pub mod walk
