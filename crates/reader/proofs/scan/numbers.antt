-- A section, and a count, a length or an entry in it.
pub mod Sections
pub mod NumberSteps
