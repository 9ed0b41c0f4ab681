-- The check of a term, word by word, and against a book.
pub mod TermSteps
pub mod Checks
