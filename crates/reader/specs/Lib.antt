pub mod Format
pub mod Parser
pub mod Answers
pub mod Book
pub mod Cases
-- Inner: the reader in one pass
pub mod scan
