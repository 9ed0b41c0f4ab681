pub mod Text
-- How it stands in lent bytes: inner
pub mod lent
