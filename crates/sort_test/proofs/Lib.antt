-- The computed test decides, and what its answer tells
pub mod ListTest
pub mod Tests
-- The cases
pub mod Cases
