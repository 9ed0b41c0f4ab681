-- The sections of a book, one after the other.
pub mod SectionSteps
pub mod ScanSteps
