-- Where a stretch stands, and that it stays while words are written
pub mod Places
pub mod Kept
-- A reduct, written from its end to its front
pub mod Turns
