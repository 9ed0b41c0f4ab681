-- A rewrite in the rows: what the proofs of `rewrites` cite.
pub mod Redexes
pub mod Listed
pub mod Built
pub mod Sides
