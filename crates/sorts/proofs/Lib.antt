-- Sorted forests and instances of sorted sides; words that are not listed
pub mod Sortings
pub mod Unlisted
-- A rule that passes keeps the sort, in any surroundings; the built-in rules pass
pub mod Subjects
pub mod Places
pub mod Builtins
-- What that says of every rewrite, and of an evaluation
pub mod Kept
-- The computed checks decide
pub mod Checking
pub mod Decides
