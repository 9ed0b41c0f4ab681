-- The machine's state in an area of words, and what the contracts of `advance` cite.
pub mod Area
pub mod Transition
pub mod Arrivals
