-- The reader in one pass: inner.
pub mod Sections
