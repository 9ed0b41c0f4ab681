pub mod Matching
pub mod Bindings
pub mod Fits
pub mod Safety
pub mod StrategyTest
pub mod Cases
-- Inner: the search among the rules
pub mod rules
