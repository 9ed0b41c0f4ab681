-- The shape of a book, from its sections.
pub mod Scans
-- What a scan tells, by its outcome.
pub mod Outcomes
