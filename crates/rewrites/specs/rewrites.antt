-- A rewrite in an area of words: what the contracts of `rewrites` cite. Inner: no public contract rests on it.
pub mod Rewritten
