-- The machine's states and transitions, and the measure of a loop that runs it
pub mod States
pub mod Skipping
pub mod Levels
pub mod Measure
pub mod Advances
-- In an area of words: what the proofs of `advance` cite
pub mod Areas
pub mod Bounds
pub mod Transitions
pub mod Performing
pub mod Trying
pub mod Rounds
pub mod Advancing
pub mod Arriving
pub mod Retrying
