-- The replay of a record, and what the operation answers
pub mod Replay
pub mod Replaying
-- The pairs one after the other: inner
pub mod retrace
