-- A step of the machine in an area of words: what the proofs of `steps` cite. Of raised lengths the replay cites it too
pub mod Kept
pub mod Raising
pub mod Stepping
pub mod Rewrote
