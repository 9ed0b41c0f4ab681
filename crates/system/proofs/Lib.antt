-- Symbols, rules, terms: forests and positions
pub mod BuiltIns
pub mod SquareLaw
pub mod Signatures
pub mod Members
pub mod Occurrences
pub mod Numbering
pub mod Rules
pub mod Forests
pub mod Places
-- The lengths of a term's subterms
pub mod Spans
-- The check of a term
pub mod TermChecks
pub mod FaultNumbers
pub mod Taken
-- The lowest number that fails a test
pub mod FirstFailing
