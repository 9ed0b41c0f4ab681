-- A run from a state in an area of words: what the proofs of `run_at` cite; and that one that waits may be gone on with.
pub mod Running
pub mod Rounds
pub mod Steps
pub mod Moved
pub mod Onward
pub mod Again
