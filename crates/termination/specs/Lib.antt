-- What 02 (F-6) says of weights, and the test by them
pub mod Weights
pub mod WeightTest
pub mod Tells
pub mod Cases
-- Inner: the variables of a side counted
pub mod falling
