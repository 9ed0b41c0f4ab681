-- Inner: a rewrite
pub mod rewrites
