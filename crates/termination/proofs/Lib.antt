-- What words weigh, and what an instance of a side weighs
pub mod Words
pub mod Ranges
pub mod Instances
-- Rules that fall, and the test of them
pub mod Falls
pub mod Decides
pub mod Tests
-- What that says of every rewrite, and of an evaluation
pub mod Finite
-- The cases
pub mod Cases
