-- What the sort test (02, F-8) answers, and what that tells
pub mod SortTest
pub mod Tells
pub mod Cases
-- Inner: the check of a term
pub mod windows
