-- Matching, and the first rule that matches
pub mod SameWords
pub mod Matched
pub mod Computed
pub mod Firsts
-- The stretches are what `bind` finds; the reduct
pub mod Words
pub mod Stretches
pub mod BindingsAgree
pub mod Sources
pub mod Reducts
pub mod Fits
-- Where the stretches lie, and what a cut of the left side cuts
pub mod Placed
pub mod Splits
-- The strategy test
pub mod Idle
pub mod SafetyTest
pub mod Tests
-- A variable twice on a left side
pub mod Repeats
-- The starred case
pub mod Cases
