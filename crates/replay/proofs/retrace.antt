-- Following a record in an area of words: what the proofs of `retrace` cite. The finger starts at the root, and stays where a step is (Stepping).
pub mod Stepping
pub mod Following
pub mod Tracing
