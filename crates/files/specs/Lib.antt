pub mod Words
pub mod Files
-- What the checks print: inner
pub mod checks
